use Rattle.std.proofs.Common.{rules, ◌≡◌, ◌-◌, List, ℕ, [], ◌∷◌, ◌++◌, None, codes, take, drop, length}
use Rattle.xml.specs.Reads.{Form, Literal, Then}
use Rattle.xml.specs.Forms.{PairForm, CommentForm}
use Rattle.xml.proofs.Steps.{missing_first, reads_then, reads_none, reads_as, literal_reads, literal_ends}
use Rattle.xml.proofs.Comments.{CommentChain, comment_same, comment_opens}
use Rattle.xml.proofs.tag.comment.Goals as goal

abbrev Close : Form
Close = Literal (62 ∷ [])

-- the bytes behind the first four
abbrev behind : List ℕ → List ℕ
behind text = take (length text - 4) (drop 4 text)

pub returns-in_err-past_pair-clause-reads : goal.returns-in_err-past_pair-clause-reads
returns-in_err-past_pair-clause-reads c =
    let text = c.args.text.now in
    let body = behind text in
    let opened : text ≡ codes "<!--" ++ body = comment_opens text c.in-60.len_at_least (search rules) (search rules) (search rules) (search rules) in
    reads_none CommentForm text _ c.from_residual.ensures
    (reads_as CommentChain CommentForm text text None (comment_same text)
    (reads_then (Literal (codes "<!--")) (Then (PairForm 45 45) Close) text body None (literal_ends (codes "<!--") text body opened)
    (missing_first (PairForm 45 45) Close body c.in_err-past_pair.ensures)))

pub returns-clause-reads : goal.returns-clause-reads
returns-clause-reads c =
    let text = c.args.text.now in
    let body = behind text in
    let close = c.in_ok-past_pair.field-0 in
    let opened : text ≡ codes "<!--" ++ body = comment_opens text c.in-60.len_at_least (search rules) (search rules) (search rules) (search rules) in
    reads_as CommentChain CommentForm text text _ (comment_same text)
    (reads_then (Literal (codes "<!--")) (Then (PairForm 45 45) Close) text body _ (literal_ends (codes "<!--") text body opened)
    (reads_then (PairForm 45 45) Close body close.now _ c.in_ok-past_pair.ensures (literal_reads (62 ∷ []) close.now _ c.strip_prefix.ensures.cases)))
