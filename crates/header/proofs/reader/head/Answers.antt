use Rattle.std.proofs.Common.{◌≡◌, rules, drop, sym, ◌∙◌, subst, arith}
use Rattle.std.proofs.lemmas.List.{length-take-le}
use Rattle.std.proofs.lemmas.Bool.{false≢true}
use Rattle.header.specs.Lines.{Begins, terminator}
use Rattle.header.specs.Headers.{Stated, NotStated, InOrder, FirstMisplaced}
use Rattle.header.specs.Keys.{code}
use Rattle.header.specs.Rows.{front, LawfulHeader, Refused}
use Rattle.header.proofs.Exits.{exit}
use Rattle.header.proofs.Fronts.{front_read}
use Rattle.header.proofs.Order.{refused_stage, refused_misplaced, refused_unterminated, one_answer}
use Rattle.header.specs.Extents.{ends}
use Rattle.header.proofs.Small.{small_from, end_fits}
use Rattle.header.proofs.reader.head.Given as given
use Rattle.header.proofs.reader.head.Goals as goal
use Rattle.header.proofs.reader.head.Goals.{In_ok-read, In_ok-header, After-end}

-- the bytes read are the file's front
first : (g : given.Over) (c : In_ok-read g) → c.read.new.buffer ≡ front (g.S.Source.bytes c.args.source.now)
first g c = front_read _ _ _ _ _ c.len.ensures.value c.min-n.ensures (length-take-le _ _ (omega arith)) c.in_ok-read.ensures

-- what the header states, of the file
stated : (g : given.Over) (c : In_ok-header g) → Stated (front (g.S.Source.bytes c.args.source.now)) c.in_ok-header.header
stated g c = subst (λ z. Stated z c.in_ok-header.header) (first g (goal.at.In_ok-header g c).In_ok-read) c.in_ok-header.ensures

pub returns-in_err-header : goal.returns-in_err-header
returns-in_err-header g c =
    let a = exit _ _ _ _ c.from_residual-in_err-header.ensures.1 (refused_stage _ _ (subst (λ z. NotStated z c.in_err-header.field-0.0) (first g (goal.at.returns-in_err-header g c).In_ok-read) c.in_err-header.ensures)) in
    record { answer = a; only = λ s. one_answer _ _ s a }

pub in_order-requires : goal.in_order-requires
in_order-requires g c = small_from _ _ c.in_ok-header.ensures

pub returns-in-Err : goal.returns-in-Err
returns-in-Err g c =
    let a : Refused (g.S.Source.bytes c.args.source.now) c.at.result = refused_misplaced _ _ c.in_ok-header.header (code c.in-Err.key) (stated g (goal.at.returns-in-Err g c).In_ok-header) (search rules)
    (subst (λ n. FirstMisplaced c.in_ok-header.header n (code c.in-Err.key)) c.len-2.ensures.value c.in-Err.ensures) in
    record { answer = a; only = λ s. one_answer _ _ s a }

-- the XML block's end fits
ended : (g : given.Over) (c : After-end g) → c.end.result ≡ ends c.in_ok-header.header.xml
ended g c = c.end.ensures ∙ end_fits _ (small_from _ _ c.in_ok-header.ensures).xml

pub returns-then-not-terminated : goal.returns-then-not-terminated
returns-then-not-terminated g c =
    let a : Refused (g.S.Source.bytes c.args.source.now) c.at-then-not-terminated.result = refused_unterminated _ _ c.in_ok-header.header (stated g (goal.at.returns-then-not-terminated g c).In_ok-header)
    (subst (InOrder c.in_ok-header.header) c.len-2.ensures.value c.in_default.ensures)
    (search rules)
    (λ h. false≢true (c.if-not-terminated.ensures.1 (subst (λ n. Begins (drop n (g.S.Source.bytes c.args.source.now)) terminator) (sym (ended g (goal.at.returns-then-not-terminated g c).After-end)) h))) in
    record { answer = a; only = λ s. one_answer _ _ s a }

pub returns : goal.returns
returns g c =
    let a : LawfulHeader (g.S.Source.bytes c.args.source.now) c.in_ok-header.header = record {
      stated = stated g (goal.at.returns g c).In_ok-header;
      ordered = subst (InOrder c.in_ok-header.header) c.len-2.ensures.value c.in_default.ensures;
      terminated = search rules;
    } in
    record { answer = a; only = λ s. one_answer _ _ s a }
