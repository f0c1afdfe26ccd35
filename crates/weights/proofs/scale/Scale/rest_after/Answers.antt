-- `rest_after` is the rest in its place, by what it receives.
use mathlib.Core.Path.{refl}
use native.Mathlib.Omega.{arith}
use Rattle.weights.specs.Scales.{chain_in}
use Rattle.rests.proofs.Fewest.{needed_is}
use Rattle.weights.proofs.scale.Scale.rest_after.Goals as goal

pub returns : goal.returns
returns c =
    let a = c.args in
    let room = c.requires.0 in (
      refl,
      refl,
      refl,
      λ n filled. record {
        inside = omega arith;
        one_core = omega arith;
        room = omega arith;
        receives = c.transfer-received.ensures;
        left = needed_is (chain_in a.self.now) n a.self.now.board a.work.now a.s refl room.sized.cores_most (omega (arith, room.long)) room.sized.tasks_most filled (omega arith) (omega arith) (omega arith) (omega arith) c.transfer-received.ensures c.cores_needed-left.ensures;
      },
    )
