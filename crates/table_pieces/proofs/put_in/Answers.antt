-- `table_pieces::put_in` meets its contract: the rows of the three pieces are counted, and where there is room they are written.
use mathlib.Core.Path.{sym, ◌∙◌}
use Rattle.table_moved.proofs.Due.{put-in, no_room}
use Rattle.table_moved.proofs.Words.{over-pieces, rows-pieces, joins}
use Rattle.table_pieces.proofs.put_in.Goals as goal

pub join-requires : goal.join-requires
join-requires c =
    let a = c.args in
    joins a.profile a.target.now a.keys.now a.words.now a.f a.name c.requires _ _ c.place-from.ensures c.entry_end-to.ensures a.res.now (sym c.has_room.ensures ∙ c.if-has_room.true)

pub returns-then-has_room : goal.returns-then-has_room
returns-then-has_room c =
    let a = c.args in
    let n = rows-pieces a.profile a.target.now a.keys.now a.words.now a.f a.name c.requires _ _ c.place-from.ensures c.entry_end-to.ensures in
    let o = over-pieces a.profile a.target.now a.keys.now a.words.now a.f a.name c.requires _ _ c.place-from.ensures c.entry_end-to.ensures a.res.now _ c.join.ensures in
    put-in _ a.res.now _ n _ (sym c.has_room.ensures ∙ c.if-has_room.true) o

pub returns : goal.returns
returns c =
    let a = c.args in
    let n = rows-pieces a.profile a.target.now a.keys.now a.words.now a.f a.name c.requires _ _ c.place-from.ensures c.entry_end-to.ensures in
    no_room _ a.res.now _ n (sym c.has_room.ensures ∙ c.if-has_room.false)
