-- `text_pieces::name_bytes` meets its contract: a word below 65,536 is two bytes.
use Rattle.text_pieces.proofs.NameLaws.{bytes-of-words}
use Rattle.text_pieces.proofs.name_bytes.Goals as goal

pub returns : goal.returns
returns c =
    let start = c in
    let a = start.args in
    let p = c.word_at-a in
    let q = c.word_at-b in
    let r = c.word_at-c in
    let s = c.word_at-d in
    bytes-of-words a.words.now a.from p.result q.result r.result s.result p.ensures q.ensures
    r.ensures s.ensures
