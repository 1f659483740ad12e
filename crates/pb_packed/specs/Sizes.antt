-- The numbers that say how large states and tasks are. A definition or a clause that means one of
-- them cites it by its name here. Code has the same numbers as constants.
use Rattle.std.specs.Prelude.{ℕ}

-- how many bits a state has
abbrev pub state_bits : ℕ
state_bits = 1024

-- how many hexadecimal digits a state has at most, four bits each
abbrev pub most_digits : ℕ
most_digits = 256

-- how many ground atoms a task has at most
abbrev pub most_atoms : ℕ
most_atoms = 1024

-- how many hexadecimal digits spell a state in version 1 of certificates
abbrev pub version_1_digits : ℕ
version_1_digits = 64
