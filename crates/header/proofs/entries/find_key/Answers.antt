use Rattle.std.proofs.Common.{◌≡◌, rules}
use Rattle.std.proofs.lemmas.Iterator.{first_from_find, YieldsList-from_slice}
use Rattle.std.proofs.lemmas.Slice.Eq.{bytes_eq-Decides}
use Rattle.header.specs.declared.entries.Entry.{Entry}
use Rattle.header.proofs.Finding.{found}
use Rattle.header.proofs.entries.find_key.Goals as goal

pub returns : goal.returns
returns c =
    found c.args.entries.now c.args.key.now c.find.result
    (first_from_find _ _ c.find.result (λ (e : Entry). e.key.now ≡ c.args.key.now) (λ (e : Entry). e.key.now ≡ c.args.key.now → ⊥) c.find.ensures.ran (YieldsList-from_slice c.args.entries.now cc) (λ x q k. search (rules, bytes_eq-Decides)) (λ x q k. search (rules, bytes_eq-Decides)))
