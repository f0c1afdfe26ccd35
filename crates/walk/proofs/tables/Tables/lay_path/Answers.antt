-- `lay_path` lays the plan of the threshold: the bytes are those of the modules that the walk has passed, and each turn takes the walk's
-- next module.
use mathlib.Core.List.{[]}
use mathlib.Core.Path.{refl, sym, ap, ◌∙◌}
use Prim.Native.Nat.{◌≤◌}
use native.Mathlib.Omega.{arith}
use lib.ListN.{length}
use Rattle.walk.specs.Tables.{chain_in}
use Rattle.layout.specs.Layout.{most_modules}
use Rattle.layout.proofs.Placing.{encode_length}
use Rattle.walk.proofs.Coming.{passed_beside}
use Rattle.walk.proofs.Laying.{laid_start, laid_length, laid_end, next_some, next_has, next_room, laid_next}
use Rattle.walk.proofs.tables.Tables.lay_path.Goals as goal

pub loop-m-init : goal.loop-m-init
loop-m-init c =
    let a = c.args in
    laid_start (chain_in a.self.now) a.self.now.n c.requires.0 c.requires.1 c.requires.2 c.requires.3 c.requires.4

pub next_module-x-requires : goal.next_module-x-requires
next_module-x-requires c =
    let a = c.args in
    let o = c.loop-m in
    let more = c.loop-m-test.true in
    let some = next_some (chain_in a.self.now) a.self.now.n a.self.now.work.now o.m o.i o.plan o.invariant more in
    (more, some)

pub bounds-turn-x : goal.bounds-turn-x
bounds-turn-x c =
    let a = c.args in
    let o = c.loop-m in
    let x = c.next_module-x in
    let (q, f) = next_has (chain_in a.self.now) a.self.now.n a.self.now.work.now o.m o.i o.plan o.invariant c.loop-m-test.true x.result x.ensures in
    omega (arith, f.beside, c.args.self.now.tabled.area.sized.cores_most)

pub cores_left-requires : goal.cores_left-requires
cores_left-requires c =
    let a = c.args in
    let k = chain_in a.self.now in
    let o = c.loop-m in
    let more = c.loop-m-test.true in
    let x = c.next_module-x in
    let (q, f) = next_has k a.self.now.n a.self.now.work.now o.m o.i o.plan o.invariant more x.result x.ensures in
    let most : x.result.cores ≤ a.self.now.board.cores = omega (arith, f.beside) in
    let room = next_room k a.self.now.n a.self.now.work.now o.m o.i o.plan o.invariant more x.result x.ensures refl in
    (more, f.fits.one_core, passed_beside k a.self.now.n o.m o.invariant.right x.result.cores refl room most)

pub overflow_mul-spare : goal.overflow_mul-spare
overflow_mul-spare c =
    let a = c.args in
    let o = c.loop-m in
    let x = c.next_module-x in
    let (q, f) = next_has (chain_in a.self.now) a.self.now.n a.self.now.work.now o.m o.i o.plan o.invariant c.loop-m-test.true x.result x.ensures in
    omega (arith, f.fits.room, c.args.self.now.tabled.area.sized.cores_most)

pub overflow_sub-spare : goal.overflow_sub-spare
overflow_sub-spare c =
    let a = c.args in
    let o = c.loop-m in
    let x = c.next_module-x in
    let (q, f) = next_has (chain_in a.self.now) a.self.now.n a.self.now.work.now o.m o.i o.plan o.invariant c.loop-m-test.true x.result x.ensures in
    let left = c.cores_left.ensures a.self.now.n c.args.self.now.tabled.slacks o.invariant.right.whole in
    omega (arith, f.few, left)

pub loop-m-smaller : goal.loop-m-smaller
loop-m-smaller c =
    let a = c.args in
    let o = c.loop-m in
    let x = c.next_module-x in
    let (q, f) = next_has (chain_in a.self.now) a.self.now.n a.self.now.work.now o.m o.i o.plan o.invariant c.loop-m-test.true x.result x.ensures in
    omega (arith, f.fits.later, c.loop-m-test.true)

pub loop-m-preserved : goal.loop-m-preserved
loop-m-preserved c =
    let a = c.args in
    let k = chain_in a.self.now in
    let o = c.loop-m in
    let more = c.loop-m-test.true in
    let x = c.next_module-x in
    let (q, f) = next_has k a.self.now.n a.self.now.work.now o.m o.i o.plan o.invariant more x.result x.ensures in
    let most : x.result.cores ≤ a.self.now.board.cores = omega (arith, f.beside) in
    let room = c.rooms_of.ensures.0.at x.result.cores most in
    let left = c.cores_left.ensures a.self.now.n c.args.self.now.tabled.slacks o.invariant.right.whole in
    laid_next k a.self.now.n a.self.now.work.now o.m o.i o.plan o.invariant more x.result x.ensures room c.args.self.now.weighed c.requires.0 left c.args.self.now.tabled.area.sized.tasks_most c.put_module.ensures

pub shape_of-plan : goal.shape_of-plan
shape_of-plan c =
    let a = c.args in
    let l = c.loop-m in
    laid_length (chain_in a.self.now) a.self.now.n a.self.now.work.now l.m l.i l.plan l.invariant ∙ sym (ap length c.requires.4 ∙ encode_length most_modules [])

pub returns : goal.returns
returns c =
    let a = c.args in
    let l = c.loop-m in
    laid_end (chain_in a.self.now) a.self.now.n a.self.now.work.now l.m l.i l.plan l.invariant c.loop-m-test.false
