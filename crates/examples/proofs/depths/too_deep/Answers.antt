use Rattle.std.proofs.Common.{subst, ◌∙◌, arith}
use Rattle.xml.specs.Grammar.{IsDocument}
use Rattle.examples.proofs.Nested.{depth_limit, refused}
use Rattle.examples.proofs.depths.too_deep.Goals as goal

pub returns : goal.returns
returns c = record {
  answer = c.err.ensures.value ∙ refused _ _ c.root.ensures (λ d. (depth_limit 16).1 (omega arith) (subst IsDocument c.seventeen.ensures d));
  always = depth_limit;
}
