use Rattle.std.proofs.Common.{length, refl}
use Rattle.std.proofs.Math.Nat.{le_of_lt}
use Rattle.std.proofs.lemmas.Option.{slice_get_read}
use Rattle.range_merge.proofs.in_place.borrowed.CopiedRightIndexed.at.Goals as goal

pub offset_bounds-as_slice-i : goal.offset_bounds-as_slice-i
offset_bounds-as_slice-i g c = le_of_lt (rw (← c.self.view_is, ← c.as_slice.ensures) at c.requires)

pub bounds-as_slice-i : goal.bounds-as_slice-i
bounds-as_slice-i g c = rw (← c.self.view_is, ← c.as_slice.ensures) at c.requires

pub returns : goal.returns
returns g c =
    let slice = c.as_slice.result.now in
    let within = rw (← c.self.view_is, ← c.as_slice.ensures) at c.requires in
    rw (← c.self.view_is, ← c.as_slice.ensures) (slice_get_read slice (length slice) c.args.i c.index-as_slice-i.result refl within c.index-as_slice-i.is)
