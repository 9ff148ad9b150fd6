-- `text_recogniser::scan::name` meets its contract: a first byte that passes the test, and at most seven more.
use mathlib.Core.Path.{◌≡◌, sym, ap, ◌∙◌}
use Rattle.prelude.proofs.Elements.{rest-is-drop}
use Rattle.netlist.specs.Parse.{name_bytes}
use Rattle.text_recogniser.specs.Readers.{scan_of, first_byte}
use Rattle.text_recogniser.proofs.Names.{name-there, name-first, name-none}
use Rattle.text_recogniser.proofs.scan.name.Goals as goal

pub returns-then-not-may_start : goal.returns-then-not-may_start
returns-then-not-may_start g c =
    sym
    (name-none g.underscore c.args.s.now
    (sym (ap (first_byte g.underscore) c.byte_at.ensures) ∙ sym (c.requires.1.1 _ _ c.may_start.ensures)
    ∙ c.if-not-may_start.true))

pub slice_bounds-name_bytes-count : goal.slice_bounds-name_bytes-count
slice_bounds-name_bytes-count g c =
    name-there g.underscore c.args.s.now
    (sym (ap (first_byte g.underscore) c.byte_at.ensures) ∙ sym (c.requires.1.1 _ _ c.may_start.ensures)
    ∙ c.if-not-may_start.false)

pub slice_bounds-name_bytes-start : goal.slice_bounds-name_bytes-start
slice_bounds-name_bytes-start g c =
    name-there g.underscore c.args.s.now
    (sym (ap (first_byte g.underscore) c.byte_at.ensures) ∙ sym (c.requires.1.1 _ _ c.may_start.ensures)
    ∙ c.if-not-may_start.false)

pub returns : goal.returns
returns g c =
    c.name_bytes.ensures ∙ ap (λ t. scan_of (name_bytes 7 t)) (rest-is-drop c.args.s.now 1)
    ∙ sym
    (name-first g.underscore c.args.s.now
    (sym (ap (first_byte g.underscore) c.byte_at.ensures) ∙ sym (c.requires.1.1 _ _ c.may_start.ensures)
    ∙ c.if-not-may_start.false))
