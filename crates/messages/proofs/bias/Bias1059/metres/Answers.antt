-- `messages::bias::Bias1059::metres` meets its contract: the constant of the code is the unit. Assumes nothing.
use mathlib.Core.Path.{◌∙◌}
use borrow.Author.Rules.{rules}
use Rattle.messages.proofs.MetresLaws.{times_one_hundredth}
use Rattle.messages.proofs.bias.Bias1059.metres.Goals as goal

pub returns : goal.returns
returns c = times_one_hundredth _ ∙ search rules
