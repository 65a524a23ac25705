-- Rows on sharing.
use Rattle.std.specs.Prelude.{◌≡◌, ℕ, ◌+◌, List, [], ◌∷◌, ◌++◌, replicate}
use Rattle.tree_model.specs.declared.command.Command.TheVariants.{Write, Remove}
use Rattle.place_words.specs.Different.{span}
use Rattle.volume_model.specs.Cache.{cached_blocks}
use Rattle.volume_model.specs.Done.{all_done}
use Rattle.volume_model.specs.Machine.{Machine, Rules}
use Rattle.volume_model.specs.Point.{after_point, report_of}
use Rattle.volume_rows.specs.Setting.{rules, with_threshold, fresh_volume, file, blocks, made, fresh, share, point, one_stored, two_files, two_stored}

-- a second file of the same blocks shares them all
abbrev pub SharedRow : Type 0
SharedRow = report_of rules two_files [] ≡ point 2 0 8 1932 (share 3 0 8 105 ∷ [])

-- three equal blocks are below the threshold
abbrev pub BelowThresholdRow : Type 0
BelowThresholdRow = report_of rules (all_done two_stored (made 99 (span 65 3))) (span 119 3) ≡ point 3 3 0 1928 (fresh 4 0 3 119 ∷ [])

-- four are at it
abbrev pub AtThresholdRow : Type 0
AtThresholdRow = report_of rules (all_done two_stored (made 99 (span 65 4))) [] ≡ point 3 0 4 1931 (share 4 0 4 105 ∷ [])

-- /b of D, E, P, Q, R and S, and then /c of A to E and P to S
abbrev pub longer : Machine
longer = all_done one_stored (made 98 (68 ∷ 69 ∷ span 80 4))

-- The longest sequence is taken, and what is left of the other is below the threshold.
pub record LongestRows : Type 0 where
  pub before : report_of rules longer (span 117 6) ≡ point 2 6 0 1926 (fresh 3 0 6 117 ∷ [])
  pub longest : report_of rules (all_done (after_point rules longer (span 117 6)) (made 99 (span 65 5 ++ span 80 4))) (span 125 3) ≡ point 3 3 6 1922 (fresh 4 0 3 125 ∷ share 4 3 6 117 ∷ [])

-- two files of four blocks in one point, and a third after it
abbrev pub twice : Machine
twice = all_done (fresh_volume 2048) (made 97 (span 65 4) ++ made 98 (span 65 4))

-- Files of one point don't share with each other. A later one shares the first.
pub record OnePointRows : Type 0 where
  pub apart : report_of rules twice (span 105 8) ≡ point 1 8 0 1932 (fresh 2 0 4 105 ∷ fresh 3 0 4 109 ∷ [])
  pub later : report_of rules (all_done (after_point rules twice (span 105 8)) (made 99 (span 65 4))) [] ≡ point 2 0 4 1931 (share 4 0 4 105 ∷ [])

-- /b of D, E, P and Q, and then /c of B to E, P and Q
abbrev pub as_long : Machine
as_long = all_done one_stored (made 98 (68 ∷ 69 ∷ span 80 2))

-- Of two sequences of the same length the one from the lesser place is taken.
pub record LeastPlaceRows : Type 0 where
  pub before : report_of rules as_long (span 117 4) ≡ point 2 4 0 1928 (fresh 3 0 4 117 ∷ [])
  pub least : report_of rules (all_done (after_point rules as_long (span 117 4)) (made 99 (span 66 4 ++ span 80 2))) (span 115 2) ≡ point 3 2 4 1925 (share 4 0 4 106 ∷ fresh 4 4 2 115 ∷ [])

-- Blocks are compared with those of the last point: /a was written over since, and /b still shares what it had.
abbrev pub OldBlocksRow : Type 0
OldBlocksRow =
    report_of rules (all_done one_stored (Write (file 97) 0 (blocks (span 48 8)) ∷ made 98 (span 65 8))) (span 117 8)
    ≡ point 2 8 8 1924 (fresh 2 0 8 117 ∷ share 3 0 8 105 ∷ [])

-- the one file is removed, and its blocks leave the cache list
abbrev pub gone : Machine
gone = after_point rules (all_done one_stored (Remove (file 97) ∷ [])) []

abbrev pub ForgottenRow : Type 0
ForgottenRow = cached_blocks gone.cache ≡ []

-- one block is shared at the threshold 1
abbrev pub one_block : Machine
one_block = all_done (fresh_volume 2048) (made 97 (65 ∷ []))

pub record OneIsEnoughRows : Type 0 where
  pub before : report_of (with_threshold 1) one_block (105 ∷ []) ≡ point 1 1 0 1941 (fresh 2 0 1 105 ∷ [])
  pub shared : report_of (with_threshold 1) (all_done (after_point (with_threshold 1) one_block (105 ∷ [])) (made 98 (65 ∷ []))) [] ≡ point 2 0 1 1941 (share 3 0 1 105 ∷ [])

-- files of the one block A, each with a point of its own at one of these blocks
abbrev pub one_each : Machine → ℕ → List ℕ → Machine
one_each m name [] = m
one_each m name (block ∷ more) = one_each (after_point (with_threshold 2) (all_done m (made name (65 ∷ []))) (block ∷ [])) (name + 1) more

abbrev pub nine : Machine
nine = one_each (fresh_volume 2048) 48 (105 ∷ 103 ∷ 106 ∷ 104 ∷ 107 ∷ 109 ∷ 108 ∷ 110 ∷ 111 ∷ [])

-- Of nine blocks with one fingerprint the one that was used first is no longer cached, so that it can't be shared. Of the others, which
-- are 103, 104 and 106 to 111, six and two are shared.
pub record NinthRows : Type 0 where
  pub cached : cached_blocks nine.cache ≡ 111 ∷ 110 ∷ 108 ∷ 109 ∷ 107 ∷ 104 ∷ 106 ∷ 103 ∷ []
  pub shared : report_of (with_threshold 2) (all_done nine (made 97 (replicate 8 65))) [] ≡ point 10 0 8 1932 (share 11 0 6 106 ∷ share 11 6 2 103 ∷ [])

-- room for three pairs, and every block shared
abbrev pub three : Rules
three = record (with_threshold 1) { capacity = 3 }

-- /a of A, B and C at 105 to 107, then /b of B, which is shared, then /c of D at 110, and then /d of E at 111, each with a point of its own
abbrev pub used_once : Machine
used_once = after_point three (all_done (fresh_volume 2048) (made 97 (span 65 3))) (span 105 3)

abbrev pub used_again : Machine
used_again = after_point three (all_done used_once (made 98 (66 ∷ []))) []

abbrev pub one_more : Machine
one_more = after_point three (all_done used_again (made 99 (68 ∷ []))) (110 ∷ [])

abbrev pub two_more : Machine
two_more = after_point three (all_done one_more (made 100 (69 ∷ []))) (111 ∷ [])

-- The pair that was used least recently leaves first: 105, and then 107, though 106 came into the list before it.
pub record OrderOfUseRows : Type 0 where
  pub by_place : cached_blocks used_once.cache ≡ 107 ∷ 106 ∷ 105 ∷ []
  pub in_front : cached_blocks used_again.cache ≡ 106 ∷ 107 ∷ 105 ∷ []
  pub first_out : cached_blocks one_more.cache ≡ 110 ∷ 106 ∷ 107 ∷ []
  pub next_out : cached_blocks two_more.cache ≡ 111 ∷ 110 ∷ 106 ∷ []
