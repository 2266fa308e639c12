use Rattle.std.proofs.Common.{ℕ, min, length, ap, ◌∙◌, arith}
use Rattle.shelf.specs.Meaning.{limit}
use Rattle.shelf.proofs.Parts.{stocked_bytes, stocked_length}
use Rattle.shelf.proofs.memory_shelf.MemoryShelfShelf.restock.Goals as goal

pub returns-clause-means : goal.returns-clause-means
returns-clause-means c =
    let buf = c.args.self.now.buffer.now in
    let given = c.args.given.now in
    let held = c.hold.ensures in
    let fit = c.in_ok-fit.ensures in (
      record { above = fit.above; fits = omega arith },
      record {
        bytes = stocked_bytes limit _ given buf _ held.count held.buffer (omega arith);
        stamp = held.stamp;
        capacity = ap (λ (n : ℕ). min n limit) (ap length held.buffer ∙ stocked_length given buf (omega arith));
      },
    )
