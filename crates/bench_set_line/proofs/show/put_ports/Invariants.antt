-- `bench_set_line::show::put_ports` meets its contract: its pieces are the ports.
use Rattle.bench_set_line.specs.Shown.{port_piece}
use Rattle.bench_set_line.specs.contracts.show.fn.put_ports.put_each as closure
use Rattle.bench_set_line.proofs.show.put_ports.Given as goal

abbrev pub ghost-put_each : goal.ghost-put_each
ghost-put_each a =
    port_piece (closure.captures a.put).words.now (closure.captures a.put).from (closure.captures a.put).values.now
