pub mod RoundExamples
