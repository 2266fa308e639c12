use Rattle.std.proofs.Common.{rules, sym, ◌∙◌}
use Rattle.std.proofs.lemmas.Bool.{both_ways}
use Rattle.xml.specs.Bytes.{is_in}
use Rattle.xml.proofs.Forms.{name_told, name_none}
use Rattle.xml.proofs.tag.name.Goals as goal
use Rattle.xml.proofs.tag.name.Goals.{in_default-via-then-text-lt1, in_default-via-in-len1-up+else-starts_name}

pub returns-in-len1-up : goal.returns-in-len1-up
returns-in-len1-up c =
    let starts = sym c.starts_name.ensures ∙ c.if-starts_name.true in
    name_told (is_in c.args.class) _ _ _ c.split.ensures c.in-len1-up.len_at_least (c.requires _ starts) starts

pub returns-in_default : goal.returns-in_default
returns-in_default c =
    name_none (is_in c.args.class) _
    (elim c.in_default.branch [
      | in_default-via-then-text-lt1 w ↦ λ h t. search rules
      | in_default-via-in-len1-up+else-starts_name w ↦ λ h t. both_ways _ (sym w.starts_name.ensures ∙ w.if-starts_name.false) t
    ])
