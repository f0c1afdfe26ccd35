-- What the program `plan` writes (document 01, "A small dock") of what it took in. Assumes nothing.
use Rattle.std.specs.Prelude.{ℕ, List, cond, take, replicate}
use Rattle.layout.specs.Layout.{plan_bytes}
use Rattle.figures.specs.Plan.{answer_of}
use Rattle.planners.specs.Best.{work_words, best_answer, best_bytes}
use Rattle.console.specs.declared.Input.{Input}
use Rattle.console.specs.Text.{too_long, report_text}

-- the answer of Best plan on the costs s, with blank plan bytes and a blank work area lent to it
unfoldable pub plan_text : List ℕ → List ℕ
plan_text s =
    let plan : List ℕ = replicate plan_bytes 0 in
    let work : List ℕ = replicate work_words 0 in
    report_text s (answer_of (best_answer s plan work)) (best_bytes s plan work)

-- "It holds 65,536 bytes; longer input prints `too long`": else the answer on the bytes read, the first ones of the file that took them
unfoldable pub program_text : Input → List ℕ → List ℕ
program_text i file = cond i.longer too_long (plan_text (take i.length file))
