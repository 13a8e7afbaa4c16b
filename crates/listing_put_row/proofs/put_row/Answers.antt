-- `put_row` meets its contract: where the name goes among the rows in use, and the row put in there.
use mathlib.Core.Path.{sym, ◌∙◌}
use lib.ListN.{length-take}
use Rattle.listing_reader.proofs.Placed.{in_use, opened-ready, did-deep, did-taken, did-full, did-put}
use native.Mathlib.Omega.{arith}
use borrow.Author.Rules.{rules}
use Rattle.listing_put_row.proofs.put_row.Goals as goal

pub returns-then-depth-eq17 : goal.returns-then-depth-eq17
returns-then-depth-eq17 c =
    let a = c.args in
    record { does = λ f q v g h. did-deep a.profile a.t.now a.s a.name a.c f q v g h a.t.now c.if-depth-eq17.true }

pub find_spot-requires : goal.find_spot-requires
find_spot-requires c =
    let k = in_use c.args.profile c.args.t.now c.args.s (opened-ready _ _ _ c.requires.0 c.requires.1) in
    let r = k.rows in
    let i = k.row in
    let l = k.last in
    (simp length-take (omega arith), simp length-take (omega arith))

pub returns-then-has_room : goal.returns-then-has_room
returns-then-has_room c =
    record {
      does = λ f q v g h.
          rw c.enter.ensures (did-put c.args.profile c.args.t.now c.args.s c.args.name c.args.c f q v g h c.insert.new.t c.if-depth-eq17.false _ (sym c.in-Some.is ∙ c.find_spot.ensures.answer)
          c.requires.2 (search rules) (sym c.if-has_room.true ∙ c.has_room.ensures)
          (c.insert.ensures ∙ rw c.row_of.ensures));
    }

pub returns-in-None : goal.returns-in-None
returns-in-None c =
    let a = c.args in
    record {
      does = λ f q v g h.
          did-taken a.profile a.t.now a.s a.name a.c f q v g h a.t.now c.if-depth-eq17.false (sym c.in-None.is ∙ c.find_spot.ensures.answer);
    }

pub returns-else-has_room : goal.returns-else-has_room
returns-else-has_room c =
    let a = c.args in
    record {
      does = λ f q v g h.
          did-full a.profile a.t.now a.s a.name a.c f q v g h a.t.now c.if-depth-eq17.false _ (sym c.in-Some.is ∙ c.find_spot.ensures.answer)
          (sym c.if-has_room.false ∙ c.has_room.ensures);
    }
