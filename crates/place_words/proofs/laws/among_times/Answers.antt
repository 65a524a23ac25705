use Rattle.place_words.proofs.Counting.{among_times, times_among}
use Rattle.place_words.proofs.laws.among_times.Goals as goal

pub returns : goal.returns
returns c = λ n ns. (among_times n ns, times_among n ns)
