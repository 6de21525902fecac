-- The number of each fault, and the words for its reason.
use Rattle.std.specs.Prelude.{ℕ, List, codes}
use Rattle.reader.specs.declared.fault.Reason.{Reason}
use Rattle.reader.specs.declared.fault.Reason.TheVariants.{StrayMark, BadChannel, UnknownCode, EndlessText, BadChecksum, NewFrame}

abbrev pub fault_number : Reason → ℕ
fault_number StrayMark = 1
fault_number BadChannel = 2
fault_number UnknownCode = 3
fault_number EndlessText = 4
fault_number BadChecksum = 5
fault_number NewFrame = 6

abbrev pub words_of : Reason → List ℕ
words_of StrayMark = codes "a stray AA inside the frame"
words_of BadChannel = codes "no such channel"
words_of UnknownCode = codes "no such kind of frame"
words_of EndlessText = codes "a text without an end"
words_of BadChecksum = codes "the checksum is wrong"
words_of NewFrame = codes "a new frame began before this one ended"
