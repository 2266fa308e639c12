use Rattle.std.proofs.Common.{◌≡◌, length, ◌∙◌, arith}
use Rattle.xml.specs.Walks.{content_of, children}
use Rattle.xml.proofs.ChildWalks.{AreElements-length}
use Rattle.capi.proofs.cphd_xml_root_children.Goals as goal

pub returns-in-Ok : goal.returns-in-Ok
returns-in-Ok c =
    let counted = c.count.ensures.ran in
    record {
      counted = λ d g e.
          let count : c.count.result ≡ length (children (content_of d.root)) = counted.2 ∙ AreElements-length counted.0 _ (c.children.ensures.walk (content_of d.root) (c.in-Ok.ensures.root d g e).holds counted.0 counted.1) in
          omega arith;
      none = λ n. absurd (n c.in-Ok.ensures.whole);
    }
