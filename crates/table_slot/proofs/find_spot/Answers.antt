-- `find_spot` meets its contract: the search from where it starts, at the folder's depth.
use mathlib.Core.Path.{◌∙◌}
use Rattle.table_slot.specs.Insert.{spot_of}
use Rattle.table_slot.proofs.Search.{depth-keyed}
use Rattle.table_slot.proofs.find_spot.Goals as goal

pub returns : goal.returns
unfolding spot_of
returns c =
    let a = c.args in
    record {
      answer = c.spot_from.ensures.answer ∙ rw (depth-keyed a.profile a.t.now a.f c.requires.0, ← c.start-from.ensures.0);
      inside = c.spot_from.ensures.inside;
    }
