-- How it is told whether the blocks of an order, or the modem's texts, came.
use Rattle.std.specs.Prelude.{ℕ, List, ◌++◌, if◌then◌else◌, codes}
use Rattle.order.specs.declared.words.Kind.TheVariants.{Byte}
use Rattle.order.specs.declared.summary.OrderCame.{OrderCame}
use Rattle.order.specs.declared.summary.TextsCame.{TextsCame}
use Rattle.order.specs.Comparison.{is_whole}
use Rattle.order.specs.Words.{counted, words_of}

abbrev pub byte_words : ℕ → List ℕ
byte_words n = words_of (counted n Byte)

abbrev pub order_words : OrderCame → List ℕ
order_words o = if is_whole o.came
    then codes "Each block of the order came once, the same byte for byte: "
    ++ (byte_words o.len ++ codes ".")
    else (codes "The order of " ++ (byte_words o.len ++ codes " did not come as it was sent."))

abbrev pub texts_words : TextsCame → List ℕ
texts_words t = if is_whole t.came
    then codes "The modem's texts came once, the same byte for byte: "
    ++ (byte_words t.len ++ codes ".")
    else (codes "The modem's texts did not come as they were sent: "
    ++ (byte_words t.len ++ codes " came."))
