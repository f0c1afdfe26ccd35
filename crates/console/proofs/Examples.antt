-- The lines that document 01 writes out for the small dock, and a refusal's, computed. Assumes nothing.
use mathlib.Core.Path.{◌≡◌, refl}
use Rattle.console.specs.Text.{ascii, spell, spaced, ended, module_line, slowest_line, refused_line}

pub small_module : module_line (record { first = 1; last = 2; copies = 2; cores = 2 }) 18 ≡ ascii "1 2 2 2 18\n"
unfolding module_line spaced ended spell
small_module = refl

pub small_slowest : slowest_line (record { number = 0; place = 0; modules = 1; cores = 4; slowest = 1; copies = 2; response = 18 })
    ≡ ascii "slowest 1 18 2 cores 4\n"
unfolding slowest_line spaced ended spell
small_slowest = refl

pub refused_line_lem : refused_line (record { number = 6; place = 31; modules = 0; cores = 0; slowest = 0; copies = 0; response = 0 })
    ≡ ascii "refused 6 31\n"
unfolding refused_line spaced ended spell
refused_line_lem = refl
