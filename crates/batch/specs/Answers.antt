-- What each answer of the code tells. Assumes nothing.
use Rattle.std.specs.Prelude.{Result}
use Rattle.bits.specs.Told.{Told}
use Rattle.bits.specs.Refusals.{told}
use Rattle.bits.specs.declared.refusal.Refusal.{Refusal}
use Rattle.frames.specs.Answers.{known}
use Rattle.batch.specs.Batch as batch
use Rattle.batch.specs.Batch.{AllAnswer}
use Rattle.batch.specs.declared.feed.Listed.{Listed}

-- the frames that are listed, or Size, State, Room with 1
abbrev pub known_listed : Listed → AllAnswer
known_listed r = batch.Frames r.count r.taken r.skipped r.full r.place (known r.scanner)

abbrev pub told_all : Result Listed Refusal → Told AllAnswer
told_all r = told known_listed r
