-- The laws of a put, as the tactics take them.
use Rattle.plain_tree.proofs.Puts.{put_new, put_there}

pub ruleset puts = (put_new, put_there)
