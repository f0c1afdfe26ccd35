-- `record_at` is `module_at`, byte by byte.
use mathlib.Core.Path.{refl}
use Rattle.layout.proofs.layout.record_at.Goals as goal

pub returns : goal.returns
returns c =
    rw (
      c.byte_at.ensures,
      c.byte_at-2.ensures,
      c.byte_at-3.ensures,
      c.byte_at-4.ensures,
    ) (refl)
