-- `bench_set_line::show::value_byte` meets its contract. Assumes nothing.
use Rattle.bench_set_line.proofs.ShowLaws.{byte-0, byte-1, byte-u}
use Rattle.bench_set_line.proofs.show.value_byte.Goals as goal

pub returns-in-0 : goal.returns-in-0
returns-in-0 c = byte-0 _ c.in-0.is

pub returns-in-1 : goal.returns-in-1
returns-in-1 c = byte-1 _ c.in-1.is

pub returns-in_default : goal.returns-in_default
returns-in_default c = byte-u _ c.in_default.in_default-own.rest.0.1 c.in_default.in_default-own.rest.1
