pub mod LoggingLemmas
