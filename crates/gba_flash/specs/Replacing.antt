use Rattle.std.specs.Prelude.{ℕ, ◌+◌, List, ◌++◌, take, drop, length, replicate}

-- bytes that are replaced by others, as many as there are, from a place on
abbrev pub with_bytes : ℕ → List ℕ → List ℕ → List ℕ
with_bytes place new bytes = take place bytes ++ new ++ drop (place + length new) bytes

-- as many zeros as there are bytes
abbrev pub zeros : List ℕ → List ℕ
zeros bytes = replicate (length bytes) 0
