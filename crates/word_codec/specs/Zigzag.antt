-- Which unsigned number stands for a signed one.
use Rattle.std.specs.Prelude.{ℕ, ◌+◌, ◌*◌, ℤ, pos, negsuc}

-- 0, -1, 1, -2, 2 become 0, 1, 2, 3, 4
abbrev pub zigzag_of : ℤ → ℕ
zigzag_of (pos number) = 2 * number
zigzag_of (negsuc before) = 2 * before + 1
