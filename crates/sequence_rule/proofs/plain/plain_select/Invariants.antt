use Rattle.sequence_rule.proofs.plain.plain_select.Given as goal

abbrev pub ghosts-match_all : goal.ghosts-match_all
ghosts-match_all g a = record { name = a.blank.name; parts = a.blank.parts }
