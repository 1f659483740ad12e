-- Commands that are written out.
use Rattle.std.proofs.Common.{refl, codes}
use Rattle.pb_command.specs.Names.{IsName}

pub grid_name : IsName (codes "grid")
grid_name = record { no_dashes = refl; no_long = refl; no_short = refl }

pub tiles_name : IsName (codes "tiles")
tiles_name = record { no_dashes = refl; no_long = refl; no_short = refl }

pub strips_name : IsName (codes "strips")
strips_name = record { no_dashes = refl; no_long = refl; no_short = refl }

pub one_name : IsName (codes "1")
one_name = record { no_dashes = refl; no_long = refl; no_short = refl }

pub two_name : IsName (codes "2")
two_name = record { no_dashes = refl; no_long = refl; no_short = refl }

pub letter_name : IsName (codes "c")
letter_name = record { no_dashes = refl; no_long = refl; no_short = refl }

pub zero_name : IsName (codes "0")
zero_name = record { no_dashes = refl; no_long = refl; no_short = refl }

pub tables_name : IsName (codes "tables")
tables_name = record { no_dashes = refl; no_long = refl; no_short = refl }

pub owners_name : IsName (codes "hda")
owners_name = record { no_dashes = refl; no_long = refl; no_short = refl }
