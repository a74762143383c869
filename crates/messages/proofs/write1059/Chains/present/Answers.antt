-- `messages::write1059::Chains::present` meets its contract. Assumes nothing.
use borrow.Author.Rules.{rules}
use mathlib.Core.Path.{◌≡◌, ◌∙◌}
use mathlib.Core.Bool.{not}
use native.Mathlib.Omega.{arith}
use lib.Dec.{eqb}
use Rattle.std.specs.Prelude.{count_by}
use Rattle.std.proofs.lemmas.List.Sums.{count_by-le-length}
use Rattle.messages.proofs.CrowdLaws.{present_counted}
use Rattle.messages.proofs.write1059.Chains.present.Goals as goal

pub returns : goal.returns
returns c =
    let e : c.count.result ≡ count_by (λ n. not (eqb n 0)) c.args.self.now.counts = search rules in
    (e ∙ present_counted c.args.self.now.counts, omega (arith, count_by-le-length (λ n. not (eqb n 0)) c.args.self.now.counts))
