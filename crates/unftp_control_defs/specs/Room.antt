-- Whether a buffer has to grow.
use Rattle.std.specs.Prelude.{ℕ, ◌+◌, ◌<◌, length, vec_capacity, vec_len}
use Rattle.std.specs.Global.{Vec}
use Rattle.unftp_control_defs.specs.Bytes.{Bytes}

-- There is no room for these bytes: they are appended only with more memory.
abbrev pub LacksRoom : Vec ℕ → Bytes → Type 0
LacksRoom out bytes = vec_capacity out < vec_len out + length bytes
