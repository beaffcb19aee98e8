use Rattle.std.proofs.Common.{◌≡◌, ℕ, ◌+◌, ◌-◌, ◌%◌, ◌≤◌, List, length, take, drop, false, refl, sym, ◌∙◌, arith}
use Rattle.std.proofs.lemmas.List.{length-drop, length-take-le}
use Rattle.range_merge.specs.ShortRuns.{place}
use Rattle.range_merge.proofs.EvenSteps.{AreSixteen-room, few-even, window-item}
use Rattle.range_merge.proofs.CopySteps.{behind-four, behind-window, slice_get-take}
use Rattle.range_merge.proofs.fast.short_runs.copied.sixteen_steps.Goals as goal

length-room : {K : Type 0} (k : ℕ) (out : List K) → k + 17 ≤ length out → length (take (k + 17 - k) (drop k out)) ≡ 17
length-room k out some = length-take-le (k + 17 - k) (drop k out) (omega (arith, length-drop k out, some)) ∙ omega arith

pub four_more-four-requires-clause-left_some : goal.four_more-four-requires-clause-left_some
four_more-four-requires-clause-left_some g c = omega (arith, length-take-le 18 c.args.a.now c.requires.left_some)

pub four_more-four-requires-clause-right_some : goal.four_more-four-requires-clause-right_some
four_more-four-requires-clause-right_some g c = omega (arith, length-take-le 18 c.args.b.now c.requires.right_some)

pub four_more-four-requires-clause-left_is : goal.four_more-four-requires-clause-left_is
four_more-four-requires-clause-left_is g c = rw (few-even c.args.at.i c.requires.left_few) (window-item 18 c.args.at.i c.args.a.now c.args.firsts.now.left (omega (arith, c.requires.left_few)) c.requires.left_is)

pub four_more-four-requires-clause-right_is : goal.four_more-four-requires-clause-right_is
four_more-four-requires-clause-right_is g c = rw (few-even c.args.at.j c.requires.right_few) (window-item 18 c.args.at.j c.args.b.now c.args.firsts.now.right (omega (arith, c.requires.right_few)) c.requires.right_is)

pub four_more-four-requires-clause-fits : goal.four_more-four-requires-clause-fits
four_more-four-requires-clause-fits g c = omega (arith, length-take-le 18 c.args.a.now c.requires.left_some, length-take-le 18 c.args.b.now c.requires.right_some)

pub four_more-eight-requires-clause-left_some : goal.four_more-eight-requires-clause-left_some
four_more-eight-requires-clause-left_some g c = omega (arith, length-take-le 18 c.args.a.now c.requires.left_some, c.four_more-four.ensures.left_within)

pub four_more-eight-requires-clause-right_some : goal.four_more-eight-requires-clause-right_some
four_more-eight-requires-clause-right_some g c = omega (arith, length-take-le 18 c.args.b.now c.requires.right_some, c.four_more-four.ensures.right_within)

pub four_more-twelve-requires-clause-left_some : goal.four_more-twelve-requires-clause-left_some
four_more-twelve-requires-clause-left_some g c =
    omega (arith, length-take-le 18 c.args.a.now c.requires.left_some, c.four_more-four.ensures.left_within, c.four_more-eight.ensures.left_within)

pub four_more-twelve-requires-clause-right_some : goal.four_more-twelve-requires-clause-right_some
four_more-twelve-requires-clause-right_some g c =
    omega (arith, length-take-le 18 c.args.b.now c.requires.right_some, c.four_more-four.ensures.right_within, c.four_more-eight.ensures.right_within)

pub four_more-read-requires-clause-left_some : goal.four_more-read-requires-clause-left_some
four_more-read-requires-clause-left_some g c = omega (
  arith,
  length-take-le 18 c.args.a.now c.requires.left_some,
  c.four_more-four.ensures.left_within,
  c.four_more-eight.ensures.left_within,
  c.four_more-twelve.ensures.left_within,
)

pub four_more-read-requires-clause-right_some : goal.four_more-read-requires-clause-right_some
four_more-read-requires-clause-right_some g c = omega (
  arith,
  length-take-le 18 c.args.b.now c.requires.right_some,
  c.four_more-four.ensures.right_within,
  c.four_more-eight.ensures.right_within,
  c.four_more-twelve.ensures.right_within,
)

pub returns-clause-steps : goal.returns-clause-steps
returns-clause-steps g c =
    let at = c.args.at in
    let out = c.args.out.now in
    let four = c.four_more-four in
    let eight = c.four_more-eight in
    let twelve = c.four_more-twelve in
    let read = c.four_more-read in
    let count = g.C.Compare.count in
    let room_is = length-room at.k out c.requires.room in
    let in_room : read.result.at.k ≤ length read.new.out =
    omega (arith, room_is, four.ensures.len, eight.ensures.len, twelve.ensures.len, read.ensures.len, four.ensures.within, eight.ensures.within, twelve.ensures.within, read.ensures.within) in
    AreSixteen-room g.P.Copier.alike g.C.Compare.order (g.O.MergeOperation.connective c.args.op.now) c.args.a.now c.args.b.now 18 18 at.k (at.k + 17 - at.k) read.result.at.k at.i at.j out read.new.out
    (place (at.i % 2) (at.j % 2) (take 0 (take (at.k + 17 - at.k) (drop at.k out))) at.next false (count c.args.cmp.now))
    (place read.result.at.i read.result.at.j (take read.result.at.k read.new.out) read.result.at.next read.result.is_long (count read.new.cmp))
    (sym (few-even at.i c.requires.left_few)) (sym (few-even at.j c.requires.right_few)) refl refl (omega (arith, c.requires.room)) in_room
    record {
      mid = place four.result.at.i four.result.at.j (take four.result.at.k four.new.out) four.result.at.next four.result.is_long (count four.new.cmp);
      first = four.ensures.looked;
      rest = record {
        mid = place eight.result.at.i eight.result.at.j (take eight.result.at.k eight.new.out) eight.result.at.next eight.result.is_long (count eight.new.cmp);
        first = eight.ensures.looked;
        rest = record {
          mid = place twelve.result.at.i twelve.result.at.j (take twelve.result.at.k twelve.new.out) twelve.result.at.next twelve.result.is_long (count twelve.new.cmp);
          first = twelve.ensures.looked;
          rest = read.ensures.looked;
        };
      };
    }

pub returns-clause-left_is : goal.returns-clause-left_is
returns-clause-left_is g c = slice_get-take 18 c.args.a.now c.four_more-read.result.at.i c.four_more-read.new.firsts.left c.four_more-read.ensures.left_is

pub returns-clause-right_is : goal.returns-clause-right_is
returns-clause-right_is g c = slice_get-take 18 c.args.b.now c.four_more-read.result.at.j c.four_more-read.new.firsts.right c.four_more-read.ensures.right_is

pub returns-clause-behind : goal.returns-clause-behind
returns-clause-behind g c =
    let out = c.args.out.now in
    let k = c.args.at.k in
    let room = take (k + 17 - k) (drop k out) in
    let four = c.four_more-four in
    let eight = c.four_more-eight in
    let twelve = c.four_more-twelve in
    let read = c.four_more-read in
    let room_is = length-room k out c.requires.room in
    let few : read.result.at.k ≤ 16 = omega (arith, four.ensures.within, eight.ensures.within, twelve.ensures.within, read.ensures.within) in
    λ keep.
    behind-window k (k + 17 - k) read.result.at.k out out read.new.out (omega (arith, c.requires.room)) (omega (arith, room_is, few, four.ensures.len, eight.ensures.len, twelve.ensures.len, read.ensures.len))
    (omega (arith, room_is, few))
    (behind-four four.result.at.k eight.result.at.k twelve.result.at.k read.result.at.k room four.new.out eight.new.out twelve.new.out read.new.out eight.ensures.from twelve.ensures.from read.ensures.from
    (four.ensures.behind keep) (eight.ensures.behind keep) (twelve.ensures.behind keep) (read.ensures.behind keep))
    refl
