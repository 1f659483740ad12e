-- Words that are names of files and values, and no options.
use Rattle.std.specs.Prelude.{◌≡◌, ℕ, List, [], ◌∷◌, None, false}
use Rattle.std.specs.Str.{bytes_eq}
use Rattle.clap.specs.Lexer.{long_of, short_of}

-- a word that is neither `--`, nor a long option, nor short ones
pub record IsName (w : List ℕ) : Type 0 where
  pub no_dashes : bytes_eq w (45 ∷ 45 ∷ []) ≡ false
  pub no_long : long_of w ≡ None
  pub no_short : short_of w ≡ None
