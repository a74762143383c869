-- What the entries of a block tell. Assumes nothing.
use Rattle.settings.specs.Edition.{number_of}
use Rattle.settings.specs.Read.{Found, found}
use Rattle.settings.specs.declared.entries.Entries.{Entries}

abbrev pub found_in : Entries → Found
found_in e = found e.count (number_of e.edition)
