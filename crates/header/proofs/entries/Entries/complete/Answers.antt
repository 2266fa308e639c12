use Rattle.std.proofs.Common.{◌<◌, rules, MatchOption}
use Rattle.std.proofs.lemmas.Iterator.{first_from_find, YieldsList-from_slice}
use Rattle.std.proofs.lemmas.Option.{MatchOption-at_some, MatchOption-at_none}
use Rattle.std.proofs.lemmas.Bool.Decides.{not_from_Decides}
use Rattle.header.specs.declared.keys.Key.{Key}
use Rattle.header.specs.Entries.{lines_of}
use Rattle.header.specs.Keys.{code, Missing, Complete}
use Rattle.header.proofs.Codes.{keys, first_missing}
use Rattle.header.proofs.entries.Entries.complete.Goals as goal
use Rattle.header.proofs.entries.Entries.complete.Goals.{After-find}

searched : (c : After-find) → let P : Key → Type 0 = Missing (lines_of c.args.self.now) in MatchOption c.find.result (Complete (lines_of c.args.self.now)) (λ x. P x.now × ((o : Key) → code o < code x.now → P o → ⊥))
searched c =
    let P : Key → Type 0 = Missing (lines_of c.args.self.now) in
    first_missing (lines_of c.args.self.now) c.find.result
    (first_from_find _ _ c.find.result P (λ (k : Key). P k → ⊥) c.find.ensures.ran (YieldsList-from_slice keys cc) (λ x q k. search rules) (λ x q k. search (rules, not_from_Decides)))

pub returns-in-Some : goal.returns-in-Some
returns-in-Some c =
    let h = MatchOption-at_some _ _ _ c.in-Some.is (searched (goal.at.returns-in-Some c).After-find) in
    record { k = c.in-Some.key.now; says = search rules; missing = h.0; first = h.1 }

pub returns-in-None : goal.returns-in-None
returns-in-None c = MatchOption-at_none _ _ c.in-None.is (searched (goal.at.returns-in-None c).After-find)
