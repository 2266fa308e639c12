use Rattle.std.proofs.Common.{◌≡◌, ℕ, min, length, take, ap, ◌∙◌, arith}
use Rattle.std.proofs.lemmas.List.{take_min}
use Rattle.shelf.specs.Meaning.{limit}
use Rattle.shelf.proofs.reads.within_limit.Goals as goal

pub returns-clause-value : goal.returns-clause-value
returns-clause-value c =
    let end : c.min.result ≡ min limit (length c.args.bytes.now) = omega arith in
    ap (λ (k : ℕ). take k c.args.bytes.now) end ∙ take_min limit c.args.bytes.now
