-- `lanes_settings::settled::JudgedBatch::output_pair` meets its contract: the output can be read.
use Rattle.lanes_settings.proofs.OutputLaws.{output-there}
use Rattle.lanes_settings.proofs.settled.JudgedBatch.output_pair.Goals as goal

pub output_pair-requires : goal.output_pair-requires
output_pair-requires c =
    let j = c.args.self.now.judged in
    output-there c.args.self.now.words.now j.whole c.inputs_of.ensures c.outputs_at.ensures c.args.o c.requires
