pub mod MarkedExamples
