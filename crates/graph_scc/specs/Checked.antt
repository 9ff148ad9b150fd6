-- What the checks show of a layering, as one value. Cited by the contracts of this crate alone. Assumes nothing.
--   StepsAt                              what the check finds of a position
--   IsLayered                            it is an order of evaluation
--   HasParentAt, HasLowLinkAt, IsCertifiedAt   the certificate at a position
--   IsCertified                          and its layers are the components
use Rattle.std.specs.Prelude.{ℕ}
use Rattle.graph_scc.specs.declared.layering.Layering.{Layering}
use Rattle.graph_scc.specs.Search.{LayerStep, Layered}
use Rattle.graph_scc.specs.Leaders.{HasParent, HasLowLink, CertifiedAt, Certified}

abbrev pub StepsAt : Layering → ℕ → Type 0
StepsAt l i = LayerStep l.graph.gates l.graph.words.now l.order.now l.ends.now l.positions.now i

abbrev pub IsLayered : Layering → Type 0
IsLayered l = Layered l.graph.gates l.graph.words.now l.order.now l.ends.now l.positions.now

abbrev pub HasParentAt : Layering → ℕ → Type 0
HasParentAt l i = HasParent l.graph.gates l.graph.words.now l.order.now l.ends.now i

abbrev pub HasLowLinkAt : Layering → ℕ → Type 0
HasLowLinkAt l i = HasLowLink l.graph.gates l.graph.words.now l.order.now l.ends.now l.notes.now i

abbrev pub IsCertifiedAt : Layering → ℕ → Type 0
IsCertifiedAt l i = CertifiedAt l.graph.gates l.graph.words.now l.order.now l.ends.now l.notes.now i

abbrev pub IsCertified : Layering → Type 0
IsCertified l = Certified l.graph.gates l.graph.words.now l.order.now l.ends.now l.positions.now l.notes.now
