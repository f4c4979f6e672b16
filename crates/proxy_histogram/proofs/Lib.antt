mod ValueLemmas
mod UnansweredLemmas
