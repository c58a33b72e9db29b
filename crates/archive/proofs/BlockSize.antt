-- The bytes that a host is told are those of the struct, by the layout of the machine on which everything here is proved.
use mathlib.Core.Path.{◌≡◌, refl}
use denote.Memory.{lone}
use prog.Memory.{size}
use Rattle.control.specs.contracts.Link as link
use Rattle.archive.specs.Blocks.{block_size}

is_size : size (lone link.the_row.mir) ≡ block_size
is_size = refl
