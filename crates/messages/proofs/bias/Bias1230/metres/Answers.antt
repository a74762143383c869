-- `messages::bias::Bias1230::metres` meets its contract: the constant of the code is the unit. Assumes nothing.
use mathlib.Core.Path.{◌∙◌}
use borrow.Author.Rules.{rules}
use Rattle.messages.proofs.MetresLaws.{times_two_hundredths}
use Rattle.messages.proofs.bias.Bias1230.metres.Goals as goal

pub returns : goal.returns
returns c = times_two_hundredths _ ∙ search rules
