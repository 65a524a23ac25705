use Rattle.sharing_tests.proofs.cache_rows.holds.Given as goal

abbrev pub ghosts-is_as : goal.ghosts-is_as
ghosts-is_as a = record { name = a.blank.name; parts = a.blank.parts }
