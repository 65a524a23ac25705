-- What is written.
use Rattle.std.specs.Prelude.{ℕ, List, ◌++◌, codes, decimal}
use Rattle.std.specs.List.{flat_map}
use Rattle.reply_text.specs.Replies.{reply_text}
use Rattle.log_volume.specs.declared.answer.Answer.{Answer}
use Rattle.log_volume.specs.declared.answer.Answer.TheVariants.{Reply, LogFull}
use Rattle.log_volume.specs.declared.finding.Finding.{Finding}
use Rattle.log_volume.specs.declared.finding.Finding.TheVariants.{NoRoot, BadGeometry, Unbuilt, BadLog}

-- the line for words that are outside the table of actions
abbrev pub usage_text : List ℕ
usage_text = codes "usage: idedup ACTION IMAGE [options]\n"

-- the line that tells how many blocks are free after a format
abbrev pub formatted_text : ℕ → List ℕ
formatted_text free = codes "formatted free=" ++ decimal free ++ codes "\n"

-- the line for the first record of a log that is bad
abbrev pub bad_log_text : ℕ → List ℕ
bad_log_text index = codes "bad BadLog " ++ decimal index ++ codes "\n"

-- the line that tells why an image stands for nothing
abbrev pub finding_text : Finding → List ℕ
finding_text NoRoot = codes "bad NoRoot\n"
finding_text BadGeometry = codes "bad BadGeometry\n"
finding_text Unbuilt = codes "bad Unbuilt\n"
finding_text (BadLog index) = bad_log_text index

-- the text of an answer
abbrev pub answered_text : Answer → List ℕ
answered_text (Reply reply) = reply_text reply
answered_text LogFull = codes "refused 16 LogFull\n"

abbrev pub answered_texts : List Answer → List ℕ
answered_texts answers = flat_map answered_text answers
