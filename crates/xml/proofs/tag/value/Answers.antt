use Rattle.std.proofs.Common.{rules, ℕ, ◌≡◌, ◌-◌, ◌⊎◌, List, ◌∷◌, [], get_or, take, drop, length, sym, subst}
use Rattle.xml.specs.Bytes.{value_byte}
use Rattle.xml.specs.Reads.{Literal, Span, Reads}
use Rattle.xml.specs.Forms.{ValueForm}
use Rattle.xml.proofs.Steps.{reads_then, reads_as, literal_reads, longest_ends, first_more}
use Rattle.xml.proofs.Forms.{InQuotes, value_same}
use Rattle.xml.proofs.tag.value.Goals as goal

pub returns-in-34 : goal.returns-in-34
returns-in-34 c =
    let text = c.args.text.now in
    let q = get_or text 0 0 in
    let rest = take (length text - 1) (drop 1 text) in
    let close = c.split.result.1.now in
    let is_quote : (q ≡ 34) ⊎ (q ≡ 39) = search rules in
    let P : List ℕ → Type 0 = λ l. Reads ValueForm l c.strip_prefix.result in
    subst P (sym (first_more text c.in-34.len_at_least))
    (reads_as (InQuotes q) ValueForm (q ∷ rest) rest _ (value_same q rest is_quote)
    (reads_then (Span (value_byte q)) (Literal (q ∷ [])) rest close _ (longest_ends (value_byte q) rest _ close c.split.ensures) (literal_reads (q ∷ []) close _ c.strip_prefix.ensures.cases)))
