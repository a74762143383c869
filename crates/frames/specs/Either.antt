-- Two framings as one, told apart by the first byte. Assumes nothing.
use Rattle.std.specs.Prelude.{cond, ℕ, get_or, eqb}
use Rattle.frames.specs.Framing.{Framing}

-- the framing F where the first byte is x, else G
unfoldable pub either : {W K : Type 0} → ℕ → Framing W K → Framing W K → Framing W K
either x F G =
    record {
      need = λ s. cond (eqb (get_or s 0 0) x) (F.need s) (G.need s);
      verdict = λ s. cond (eqb (get_or s 0 0) x) (F.verdict s) (G.verdict s);
    }
