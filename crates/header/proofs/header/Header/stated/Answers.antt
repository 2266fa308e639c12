use Rattle.std.proofs.Common.{rules, refl, arith}
use Rattle.header.specs.declared.keys.Key.TheVariants.{XmlSize, XmlPlace, SupportSize, SupportPlace, PvpSize, PvpPlace, SignalSize, SignalPlace, Classification, ReleaseInfo}
use Rattle.header.specs.Entries.{lines_of}
use Rattle.shelf.specs.declared.refusal.Refusal.{Refusal}
use Rattle.header.specs.Keys.{NumbersRefused}
use Rattle.header.specs.Headers.{NotStated}
use Rattle.header.specs.Headers.NotStated.{lines, repeated, missing, not_number}
use Rattle.header.proofs.Exits.{exit}
use Rattle.header.proofs.Numbers.{RightBelow, right_none, block_more, support_more, first_wrong}
use Rattle.header.proofs.header.Header.stated.Goals as goal
use Rattle.header.proofs.header.Header.stated.Goals.{In_ok-complete, In_ok-block, In_ok-support, In_ok-block-2}

pub returns-in_err-text : goal.returns-in_err-text
returns-in_err-text c = exit _ _ _ _ c.from_residual.ensures.1 (lines (search rules))

pub returns-in_err-read : goal.returns-in_err-read
returns-in_err-read c = exit _ _ _ _ c.from_residual-in_err-read.ensures.1 (lines c.in_err-read.ensures)

pub returns-in_err-distinct : goal.returns-in_err-distinct
returns-in_err-distinct c = exit _ _ _ _ c.from_residual-in_err-distinct.ensures.1 (repeated _ _ c.in_ok-read.ensures c.in_err-distinct.ensures)

pub returns-in_err-complete : goal.returns-in_err-complete
returns-in_err-complete c = exit _ _ _ _ c.from_residual-in_err-complete.ensures.1 (missing _ _ c.in_ok-read.ensures c.in_ok-distinct.ensures c.in_err-complete.ensures)

pub block-requires : goal.block-requires
block-requires c = record { size = λ a. c.in_ok-complete.ensures XmlSize (a, tt); place = λ a. c.in_ok-complete.ensures XmlPlace (a, tt) }

pub block-requires-2 : goal.block-requires-2
block-requires-2 c = record { size = λ a. c.in_ok-complete.ensures PvpSize (a, tt); place = λ a. c.in_ok-complete.ensures PvpPlace (a, tt) }

pub block-requires-3 : goal.block-requires-3
block-requires-3 c = record { size = λ a. c.in_ok-complete.ensures SignalSize (a, tt); place = λ a. c.in_ok-complete.ensures SignalPlace (a, tt) }

pub extent-requires : goal.extent-requires
extent-requires c = λ a. c.in_ok-complete.ensures Classification (a, tt)

pub extent-requires-2 : goal.extent-requires-2
extent-requires-2 c = λ a. c.in_ok-complete.ensures ReleaseInfo (a, tt)

-- after each block the numbers so far are right
below3 : (c : In_ok-block) → RightBelow (lines_of c.read.new.self) 3
below3 c = block_more _ c.in_ok-distinct.ensures XmlSize XmlPlace refl (right_none _) _ c.in_ok-block.ensures

below5 : (c : In_ok-support) → RightBelow (lines_of c.read.new.self) 5
below5 c = support_more _ c.in_ok-distinct.ensures _ (below3 (goal.at.In_ok-support c).In_ok-block) c.in_ok-support.ensures

below7 : (c : In_ok-block-2) → RightBelow (lines_of c.read.new.self) 7
below7 c = block_more _ c.in_ok-distinct.ensures PvpSize PvpPlace refl (below5 (goal.at.In_ok-block-2 c).In_ok-support) _ c.in_ok-block-2.ensures

-- what the refusal of a number says of the header
numbers : (c : In_ok-complete) (e : Refusal) → NumbersRefused (lines_of c.read.new.self) e → NotStated c.args.head.now e
numbers c e r = not_number _ _ c.in_ok-read.ensures c.in_ok-distinct.ensures c.in_ok-complete.ensures r

pub returns-in_err-block : goal.returns-in_err-block
returns-in_err-block c =
    exit _ _ _ _ c.from_residual-in_err-block.ensures.1
    (numbers (goal.at.returns-in_err-block c).In_ok-complete _ (first_wrong _ c.in_ok-distinct.ensures XmlSize XmlPlace refl (right_none _) _ (omega arith) c.in_err-block.ensures))

pub returns-in_err-support : goal.returns-in_err-support
returns-in_err-support c =
    exit _ _ _ _ c.from_residual-in_err-support.ensures.1
    (numbers (goal.at.returns-in_err-support c).In_ok-complete _ (first_wrong _ c.in_ok-distinct.ensures SupportSize SupportPlace refl (below3 (goal.at.returns-in_err-support c).In_ok-block) _ (omega arith) c.in_err-support.ensures))

pub returns-in_err-block-2 : goal.returns-in_err-block-2
returns-in_err-block-2 c =
    exit _ _ _ _ c.from_residual-in_err-block-2.ensures.1
    (numbers (goal.at.returns-in_err-block-2 c).In_ok-complete _ (first_wrong _ c.in_ok-distinct.ensures PvpSize PvpPlace refl (below5 (goal.at.returns-in_err-block-2 c).In_ok-support) _ (omega arith) c.in_err-block-2.ensures))

pub returns-in_err-block-3 : goal.returns-in_err-block-3
returns-in_err-block-3 c =
    exit _ _ _ _ c.from_residual-in_err-block-3.ensures.1
    (numbers (goal.at.returns-in_err-block-3 c).In_ok-complete _ (first_wrong _ c.in_ok-distinct.ensures SignalSize SignalPlace refl (below7 (goal.at.returns-in_err-block-3 c).In_ok-block-2) _ (omega arith) c.in_err-block-3.ensures))
