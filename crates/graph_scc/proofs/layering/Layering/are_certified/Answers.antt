-- `graph_scc::layering::Layering::are_certified` meets its contract: the certificate is checked at each position.
use borrow.Author.Rules.{rules}
use Rattle.graph_scc.specs.Leaders.{CertifiedAt}
use Rattle.graph_scc.proofs.Ranges.{each-of_range}
use Rattle.graph_scc.proofs.layering.Layering.are_certified.Goals as goal

pub returns : goal.returns
returns c =
    λ e. let s = c.args.self.now in
    record {
      layered = c.requires;
      certified_at =
          each-of_range (CertifiedAt s.graph.gates s.graph.words.now s.order.now s.ends.now s.notes.now) s.graph.gates
          c.all.ensures.ran (λ x q k. search rules) e;
    }
