use Rattle.std.proofs.Common.{rules, ◌≡◌, ℕ, ◌≤◌, List, [], ◌∷◌, length, take, Some, None, subst}
use Rattle.std.proofs.lemmas.List.{take_all}
use Rattle.xml.specs.Bytes.{name_byte}
use Rattle.xml.specs.Forms.{NameForm, TailForm, Start}
use Rattle.xml.proofs.Steps.{missing_first, reads_then, literal_reads, cases_none}
use Rattle.xml.proofs.Forms.{name_ends}
use Rattle.xml.proofs.Elements.{start_read, start_none}
use Rattle.xml.proofs.tag.start_tag.Goals as goal

abbrev NoStart : List ℕ → Type 0
NoStart xs = (name ys : List ℕ) → Start xs name ys → ⊥

pub returns-in_err-name : goal.returns-in_err-name
returns-in_err-name c =
    let text = c.args.text.now in
    let body = c.in_ok-text.text in
    cases_none _ (NoStart text) (λ p. Start text p.0.now p.1.now) c.from_residual-in_err-name.ensures
    (start_none text body.now (literal_reads (60 ∷ []) text (Some body) c.in_ok-text.ensures.cases).is
    (missing_first (NameForm name_byte) TailForm body.now (λ ys n. c.in_err-name.ensures n.0 ys n.1)))

pub returns-in_err-tail : goal.returns-in_err-tail
returns-in_err-tail c =
    let text = c.args.text.now in
    let body = c.in_ok-text.text in
    let rest = c.in_ok-name.rest.now in
    cases_none _ (NoStart text) (λ p. Start text p.0.now p.1.now) c.from_residual-in_err-tail.ensures
    (start_none text body.now (literal_reads (60 ∷ []) text (Some body) c.in_ok-text.ensures.cases).is
    (reads_then (NameForm name_byte) TailForm body.now rest None (name_ends name_byte body.now _ rest c.in_ok-name.ensures) c.in_err-tail.ensures))

pub returns : goal.returns
returns c =
    let text = c.args.text.now in
    let body = c.in_ok-text.text in
    let name = c.in_ok-name.name.now in
    let rest = c.in_ok-tail.field-0.now in
    -- what a slice of all of the name holds
    let whole : (n : ℕ) → length name ≤ n → take n name ≡ name = λ n. take_all n name in
    subst (λ told. Start text told rest) (search rules) (start_read text body.now name _ rest (literal_reads (60 ∷ []) text (Some body) c.in_ok-text.ensures.cases).is c.in_ok-name.ensures c.in_ok-tail.ensures.is)
