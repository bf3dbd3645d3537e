mod SinkLemmas
mod LoopLemmas
mod PrintLemmas
