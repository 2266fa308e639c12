use Rattle.std.proofs.Common.{refl}
use Rattle.examples.proofs.Cases.{digit_limit}
use Rattle.examples.proofs.headers.most_digits.Goals as goal

pub returns : goal.returns
returns c = record { answer = refl; always = digit_limit }
