-- The least threshold of a response. Assumes nothing.
use Rattle.std.specs.Prelude.{ℕ, ◌+◌, ◌*◌, cond, ◌&&◌, leb}
use Rattle.rounding.specs.Rounding.{rounded_up}
use Rattle.slack.specs.Problem.{grain, top_threshold}

-- the least n up to the greatest threshold with response · 1024 ≤ n · copies; one more than the greatest where there is none, and where
-- there is no copy
unfoldable pub threshold_of : (response copies : ℕ) → ℕ
threshold_of response copies =
    cond (leb 1 copies && leb (response * grain) (top_threshold * copies)) (rounded_up (response * grain) copies) (top_threshold + 1)
