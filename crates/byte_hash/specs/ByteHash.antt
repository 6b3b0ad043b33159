-- What a `ByteHasher` computes.
use Rattle.std.specs.Prelude.{ℕ, ◌+◌, ◌*◌, ◌%◌, ◌^◌, List, slice_index}
use Rattle.byte_hash.specs.declared.ByteHasher.{ByteHasher}

-- the state after these bytes are written in one call
abbrev pub write : ByteHasher → List ℕ → ByteHasher
write h bytes = record { state = ((h.state * 0x9e37_79b9_7f4a_7c15) % 2 ^ 64 + slice_index bytes 0) % 2 ^ 64 }

-- the hash of what was written
abbrev pub finish : ByteHasher → ℕ
finish h = h.state
