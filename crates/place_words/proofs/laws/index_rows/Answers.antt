use Rattle.std.proofs.Common.{refl}
use Rattle.place_words.proofs.laws.index_rows.Goals as goal

pub returns : goal.returns
returns c = record { none = refl; one_block = refl; two_blocks = refl; holes = refl; one_leaf = refl; two_leaves = refl; first_leaf_alone = refl; last_leaf_alone = refl; last_block = refl }
