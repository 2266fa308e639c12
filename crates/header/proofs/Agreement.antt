-- A header states one thing, and one that is stated has every key and every number.
use Rattle.std.proofs.Common.{◌≡◌, ℕ, ◌+◌, ◌≤◌, List, Some, None, Option, sym, refl, ap, ◌∙◌, subst, arith}
use Rattle.header.specs.declared.extent.Extent.{Extent}
use Rattle.header.specs.declared.header.Header.{Header}
use Rattle.header.specs.declared.keys.Key.{Key}
use Rattle.header.specs.declared.keys.Key.TheVariants.{XmlSize, XmlPlace, SupportSize, SupportPlace, PvpSize, PvpPlace, SignalSize, SignalPlace, Classification, ReleaseInfo}
use Rattle.header.specs.Lines.{HeaderLine, Distinct, Stands}
use Rattle.header.specs.Keys.{name, code, last_number, Missing, NotNumber, Complete, Block, Support}
use Rattle.header.specs.Headers.{Stated, InOrder, Misplaced}
use Rattle.header.specs.Headers.Misplaced.{xml_early, support_early, pvp_early, signal_early, not_whole}
use Rattle.header.proofs.Numbers.{one_extent, right_none, block_more, support_more}
use Rattle.header.proofs.Unique.{text_same, number_same, number_present}

support_complete : (ls : List HeaderLine) (o : Option Extent) → Support ls o → (Missing ls SupportSize → ⊥) × (Missing ls SupportPlace → ⊥)
support_complete ls None s = (λ h. h.1 s.1, λ h. h.1 s.0)
support_complete ls (Some x) s = (λ h. number_present ls SupportSize _ s.has_size h.0, λ h. number_present ls SupportPlace _ s.has_place h.0)

pub stated_complete : (head : List ℕ) (h : Header) (s : Stated head h) → Complete s.ls
stated_complete head h s XmlSize m = number_present s.ls XmlSize _ s.xml.has_size m.0
stated_complete head h s XmlPlace m = number_present s.ls XmlPlace _ s.xml.has_place m.0
stated_complete head h s SupportSize m = (support_complete s.ls h.support s.support).0 m
stated_complete head h s SupportPlace m = (support_complete s.ls h.support s.support).1 m
stated_complete head h s PvpSize m = number_present s.ls PvpSize _ s.pvp.has_size m.0
stated_complete head h s PvpPlace m = number_present s.ls PvpPlace _ s.pvp.has_place m.0
stated_complete head h s SignalSize m = number_present s.ls SignalSize _ s.signal.has_size m.0
stated_complete head h s SignalPlace m = number_present s.ls SignalPlace _ s.signal.has_place m.0
stated_complete head h s Classification m = m.0 s.classification.line.i s.classification.line.line
stated_complete head h s ReleaseInfo m = m.0 s.release.line.i s.release.line.line

pub stated_right : (head : List ℕ) (h : Header) (s : Stated head h) (k : Key) → code k ≤ last_number → NotNumber s.ls k → ⊥
stated_right head h s k le u =
    let xml = block_more s.ls s.distinct XmlSize XmlPlace refl (right_none s.ls) h.xml s.xml in
    let support = support_more s.ls s.distinct h.support xml s.support in
    let pvp = block_more s.ls s.distinct PvpSize PvpPlace refl support h.pvp s.pvp in
    block_more s.ls s.distinct SignalSize SignalPlace refl pvp h.signal s.signal k (omega arith) u

-- two keys name one block
one_block : (ls : List HeaderLine) (s p : Key) (x y : Extent) → Distinct ls → Block ls s p x → Block ls s p y → x ≡ y
one_block ls s p x y d a b =
    let size = number_same ls s _ _ d a.has_size b.has_size in
    let place = number_same ls p _ _ d a.has_place b.has_place in
    λ i. record { place = place i; size = size i }

support_same : (ls : List HeaderLine) (o p : Option Extent) → Distinct ls → Support ls o → Support ls p → o ≡ p
support_same ls None None d a b = refl
support_same ls None (Some y) d a b = absurd (number_present ls SupportSize _ b.has_size a.0)
support_same ls (Some x) None d a b = absurd (number_present ls SupportSize _ a.has_size b.0)
support_same ls (Some x) (Some y) d a b = ap Some (one_block ls SupportSize SupportPlace x y d a b)

pub stated_same : (head : List ℕ) (g h : Header) → Stated head g → Stated head h → g ≡ h
stated_same head g h a b =
    let same = text_same head a.ls b.ls a.at b.at a.text b.text in
    let d = a.distinct in
    let one : (s p : Key) (x y : Extent) → Block a.ls s p x → Block b.ls s p y → x ≡ y = λ s p x y u v. one_block a.ls s p x y d u (subst (λ z. Block z s p y) (sym same.0) v) in
    let at : (n : List ℕ) (x y : Extent) → Stands a.ls n x → Stands b.ls n y → x ≡ y = λ n x y u v. one_extent a.ls n x y d u (subst (λ z. Stands z n y) (sym same.0) v) in
    let end : g.end ≡ h.end = a.end ∙ ap (λ n. n + 2) same.1 ∙ sym b.end in
    let xml = one XmlSize XmlPlace _ _ a.xml b.xml in
    let su = support_same a.ls g.support h.support d a.support (subst (λ z. Support z h.support) (sym same.0) b.support) in
    let pvp = one PvpSize PvpPlace _ _ a.pvp b.pvp in
    let signal = one SignalSize SignalPlace _ _ a.signal b.signal in
    let c = at (name Classification) _ _ a.classification b.classification in
    let r = at (name ReleaseInfo) _ _ a.release b.release in
    λ i. record { end = end i; xml = xml i; support = su i; pvp = pvp i; signal = signal i; classification = c i; release_info = r i }

pub not_misplaced : (h : Header) (len p : ℕ) → InOrder h len → Misplaced h len p → ⊥
not_misplaced h len p w (xml_early e x) = omega arith
not_misplaced h len p w (support_early e x) = w.support x
not_misplaced h len p w (pvp_early e x) = omega arith
not_misplaced h len p w (signal_early e x) = omega arith
not_misplaced h len p w (not_whole e x) = x w.whole
